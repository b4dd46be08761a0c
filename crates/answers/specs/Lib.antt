pub mod Answer
pub mod Shapes
pub mod Coded
pub mod Lengths
