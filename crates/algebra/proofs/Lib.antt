pub mod Solver
pub mod Raised
pub mod Fields
pub mod Sums
pub mod Places
pub mod Polynomials
pub mod GraeffeLaws
