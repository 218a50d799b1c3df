pub mod Play
pub mod Running
pub mod Loading
pub use Rattle.reports.specs.Reports
pub use Rattle.listings.specs.Listing
pub use Rattle.messages.specs.Messages
