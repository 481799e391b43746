pub mod ByReturn
