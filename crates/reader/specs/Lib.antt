-- The definitions that the reader's contracts cite: the tree of a text and its table, the kinds of nodes, the syntax, the reading, a string's content.
pub mod Tree
pub mod Kinds
pub mod Syntax
pub mod Reading
pub mod Content
pub mod Internal
