-- The words of the language, as bytes.
use Rattle.std.specs.Prelude.{ℕ, List, [], ◌∷◌}

abbrev pub word-wildcard : List ℕ
word-wildcard = 95 ∷ []

abbrev pub word-true : List ℕ
word-true = 116 ∷ 114 ∷ 117 ∷ 101 ∷ []

abbrev pub word-false : List ℕ
word-false = 102 ∷ 97 ∷ 108 ∷ 115 ∷ 101 ∷ []

abbrev pub word_and : List ℕ
word_and = 97 ∷ 110 ∷ 100 ∷ []

abbrev pub word_let : List ℕ
word_let = 108 ∷ 101 ∷ 116 ∷ []

abbrev pub word_if : List ℕ
word_if = 105 ∷ 102 ∷ []

abbrev pub word_if_let : List ℕ
word_if_let = 105 ∷ 102 ∷ 45 ∷ 108 ∷ 101 ∷ 116 ∷ []

abbrev pub word_pragma : List ℕ
word_pragma = 112 ∷ 114 ∷ 97 ∷ 103 ∷ 109 ∷ 97 ∷ []

abbrev pub word_type : List ℕ
word_type = 116 ∷ 121 ∷ 112 ∷ 101 ∷ []

abbrev pub word_decl : List ℕ
word_decl = 100 ∷ 101 ∷ 99 ∷ 108 ∷ []

abbrev pub word_attr : List ℕ
word_attr = 97 ∷ 116 ∷ 116 ∷ 114 ∷ []

abbrev pub word-rule : List ℕ
word-rule = 114 ∷ 117 ∷ 108 ∷ 101 ∷ []

abbrev pub word-extractor : List ℕ
word-extractor = 101 ∷ 120 ∷ 116 ∷ 114 ∷ 97 ∷ 99 ∷ 116 ∷ 111 ∷ 114 ∷ []

abbrev pub word_extern : List ℕ
word_extern = 101 ∷ 120 ∷ 116 ∷ 101 ∷ 114 ∷ 110 ∷ []

abbrev pub word_convert : List ℕ
word_convert = 99 ∷ 111 ∷ 110 ∷ 118 ∷ 101 ∷ 114 ∷ 116 ∷ []

abbrev pub word_spec : List ℕ
word_spec = 115 ∷ 112 ∷ 101 ∷ 99 ∷ []

abbrev pub word_macro : List ℕ
word_macro = 109 ∷ 97 ∷ 99 ∷ 114 ∷ 111 ∷ []

abbrev pub word_state : List ℕ
word_state = 115 ∷ 116 ∷ 97 ∷ 116 ∷ 101 ∷ []

abbrev pub word_model : List ℕ
word_model = 109 ∷ 111 ∷ 100 ∷ 101 ∷ 108 ∷ []

abbrev pub word_form : List ℕ
word_form = 102 ∷ 111 ∷ 114 ∷ 109 ∷ []

abbrev pub word_instantiate : List ℕ
word_instantiate = 105 ∷ 110 ∷ 115 ∷ 116 ∷ 97 ∷ 110 ∷ 116 ∷ 105 ∷ 97 ∷ 116 ∷ 101 ∷ []

abbrev pub word_primitive : List ℕ
word_primitive = 112 ∷ 114 ∷ 105 ∷ 109 ∷ 105 ∷ 116 ∷ 105 ∷ 118 ∷ 101 ∷ []

abbrev pub word_enum : List ℕ
word_enum = 101 ∷ 110 ∷ 117 ∷ 109 ∷ []

abbrev pub word_struct : List ℕ
word_struct = 115 ∷ 116 ∷ 114 ∷ 117 ∷ 99 ∷ 116 ∷ []

abbrev pub word_nodebug : List ℕ
word_nodebug = 110 ∷ 111 ∷ 100 ∷ 101 ∷ 98 ∷ 117 ∷ 103 ∷ []

abbrev pub word_pure : List ℕ
word_pure = 112 ∷ 117 ∷ 114 ∷ 101 ∷ []

abbrev pub word_multi : List ℕ
word_multi = 109 ∷ 117 ∷ 108 ∷ 116 ∷ 105 ∷ []

abbrev pub word_partial : List ℕ
word_partial = 112 ∷ 97 ∷ 114 ∷ 116 ∷ 105 ∷ 97 ∷ 108 ∷ []

abbrev pub word-rec : List ℕ
word-rec = 114 ∷ 101 ∷ 99 ∷ []

abbrev pub word_veri : List ℕ
word_veri = 118 ∷ 101 ∷ 114 ∷ 105 ∷ []

abbrev pub word_tag : List ℕ
word_tag = 116 ∷ 97 ∷ 103 ∷ []

abbrev pub word_chain : List ℕ
word_chain = 99 ∷ 104 ∷ 97 ∷ 105 ∷ 110 ∷ []

abbrev pub word-priority : List ℕ
word-priority = 112 ∷ 114 ∷ 105 ∷ 111 ∷ 114 ∷ 105 ∷ 116 ∷ 121 ∷ []

abbrev pub word_constructor : List ℕ
word_constructor = 99 ∷ 111 ∷ 110 ∷ 115 ∷ 116 ∷ 114 ∷ 117 ∷ 99 ∷ 116 ∷ 111 ∷ 114 ∷ []

abbrev pub word_infallible : List ℕ
word_infallible = 105 ∷ 110 ∷ 102 ∷ 97 ∷ 108 ∷ 108 ∷ 105 ∷ 98 ∷ 108 ∷ 101 ∷ []

abbrev pub word_const : List ℕ
word_const = 99 ∷ 111 ∷ 110 ∷ 115 ∷ 116 ∷ []
