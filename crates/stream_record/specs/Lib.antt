pub mod EvenScript
pub mod Parts
pub mod ScriptText
