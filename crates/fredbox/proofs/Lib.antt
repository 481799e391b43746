pub mod TakenLaws
pub mod AnswerLaws
pub mod FaultLaws
pub mod ReadFormed
pub mod Safe
