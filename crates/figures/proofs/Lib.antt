pub mod Tests
pub mod RootTests
pub mod Worked
