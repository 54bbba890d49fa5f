pub mod AtHeader
