-- The number of a kind of ast.rs, as a record holds it.
use Rattle.std.specs.Prelude.{ℕ}
use Rattle.trees.specs.declared.Kind.{Kind}
use Rattle.trees.specs.declared.Kind.TheVariants.{TypeDef, TypeValuePrimitive, TypeValueEnum, TypeValueStruct, Variant, FieldsUnit, FieldsStruct, FieldsTuple, StructField, TupleField, Decl, Attr, AttrKindChain, AttrKindPriority, AttrKindTag, ExternConstructor, ExternExtractor, ExternConst, Extractor, Rule, Priority, IfLet, Converter, Ident, PatternVar, PatternBind, PatternConstBool, PatternConstInt, PatternConstPrim, PatternTerm, PatternWildcard, PatternAnd, PatternMacroArg, ExprTerm, ExprVar, ExprConstBool, ExprConstInt, ExprConstPrim, ExprLet, LetDef}
use Rattle.trees.specs.Ast.{kind_type_def, kind_type_value_primitive, kind_type_value_enum, kind_type_value_struct, kind_variant, kind_fields_unit, kind_fields_struct, kind_fields_tuple, kind_struct_field, kind_tuple_field, kind_decl, kind_attr, kind_attr_kind_chain, kind_attr_kind_priority, kind_attr_kind_tag, kind_extern_constructor, kind_extern_extractor, kind_extern_const, kind_extractor, kind_rule, kind_priority, kind_if_let, kind_converter, kind_identifier, kind_pattern_var, kind_pattern_bind, kind_pattern_const_bool, kind_pattern_const_int, kind_pattern_const_prim, kind_pattern_term, kind_pattern_wildcard, kind_pattern_and, kind_pattern_macro_arg, kind_expr_term, kind_expr_var, kind_expr_const_bool, kind_expr_const_int, kind_expr_const_prim, kind_expr_let, kind_let_def}

abbrev pub kind_number : Kind → ℕ
kind_number TypeDef = kind_type_def
kind_number TypeValuePrimitive = kind_type_value_primitive
kind_number TypeValueEnum = kind_type_value_enum
kind_number TypeValueStruct = kind_type_value_struct
kind_number Variant = kind_variant
kind_number FieldsUnit = kind_fields_unit
kind_number FieldsStruct = kind_fields_struct
kind_number FieldsTuple = kind_fields_tuple
kind_number StructField = kind_struct_field
kind_number TupleField = kind_tuple_field
kind_number Decl = kind_decl
kind_number Attr = kind_attr
kind_number AttrKindChain = kind_attr_kind_chain
kind_number AttrKindPriority = kind_attr_kind_priority
kind_number AttrKindTag = kind_attr_kind_tag
kind_number ExternConstructor = kind_extern_constructor
kind_number ExternExtractor = kind_extern_extractor
kind_number ExternConst = kind_extern_const
kind_number Extractor = kind_extractor
kind_number Rule = kind_rule
kind_number Priority = kind_priority
kind_number IfLet = kind_if_let
kind_number Converter = kind_converter
kind_number Ident = kind_identifier
kind_number PatternVar = kind_pattern_var
kind_number PatternBind = kind_pattern_bind
kind_number PatternConstBool = kind_pattern_const_bool
kind_number PatternConstInt = kind_pattern_const_int
kind_number PatternConstPrim = kind_pattern_const_prim
kind_number PatternTerm = kind_pattern_term
kind_number PatternWildcard = kind_pattern_wildcard
kind_number PatternAnd = kind_pattern_and
kind_number PatternMacroArg = kind_pattern_macro_arg
kind_number ExprTerm = kind_expr_term
kind_number ExprVar = kind_expr_var
kind_number ExprConstBool = kind_expr_const_bool
kind_number ExprConstInt = kind_expr_const_int
kind_number ExprConstPrim = kind_expr_const_prim
kind_number ExprLet = kind_expr_let
kind_number LetDef = kind_let_def
