pub mod TypeLaws
pub mod ModifierLaws
pub mod DeclLaws
pub mod RuleLaws
pub mod DefLaws
