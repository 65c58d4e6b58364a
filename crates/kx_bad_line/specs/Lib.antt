pub mod Forms
pub mod Why
