pub mod CommandAccepted
pub mod Commands
pub mod FewTold
pub mod HeadReadBack
pub mod HeadTexts
