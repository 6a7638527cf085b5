-- The definitions that the lexer's contracts cite: where strings and comments end, items and tokens, what opens a string, and the
-- code's answers.
pub mod Closing
pub mod Token
pub mod Opening
pub mod Answer
pub mod Internal
