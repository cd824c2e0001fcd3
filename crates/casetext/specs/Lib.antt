pub mod Left
pub mod Remark
