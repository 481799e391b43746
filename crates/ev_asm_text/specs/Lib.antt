pub mod AsmText
pub mod Listed
