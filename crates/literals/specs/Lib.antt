-- The definitions that the contracts of `literals` cite: numbers, contents, the shape of words. The Internal files hold what only the
-- contracts of its inner functions cite.
pub mod Number
pub mod Content
pub mod Word
pub mod InternalNumber
pub mod InternalContent
