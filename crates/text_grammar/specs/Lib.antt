pub mod TextMeaning
