-- Laws of the nodes in a table that has been read, of contents against bytes, of the walks over children, and of what is so of every value
-- of a taken text.
pub mod WordLaws
pub mod WalkLaws
pub mod NodeLaws
pub mod ParentLaws
pub mod ContentLaws
pub mod ChildLaws
pub mod TextLaws
pub mod FedLaws
pub mod ValueLaws
pub mod KeyLaws
