pub mod HeaderText
pub mod ScriptText
pub use Rattle.lines.specs.Words
pub use Rattle.lines.specs.Reading
pub use Rattle.headers.specs.Header
pub use Rattle.scripts.specs.Script
