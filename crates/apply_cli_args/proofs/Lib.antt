mod Options
mod Parsed
