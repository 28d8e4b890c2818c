-- Terraform's form.
pub mod HookLines
pub mod NoteLines
pub mod Streams
