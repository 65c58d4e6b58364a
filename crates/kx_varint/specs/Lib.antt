pub mod BigEndian
pub mod Text
pub mod Varint
pub mod Faults
