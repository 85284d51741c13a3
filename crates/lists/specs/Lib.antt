pub mod Pick
pub mod Put
