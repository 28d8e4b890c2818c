pub mod InLines
