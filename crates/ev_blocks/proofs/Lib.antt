pub mod Falls
pub mod CallFalls
