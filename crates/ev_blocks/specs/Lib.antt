pub mod Shapes
pub mod Fred
pub mod Idt
pub mod Nmi
pub mod Calls
pub mod Items
pub mod Blocks
