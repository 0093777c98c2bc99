-- The form of each labelled statement.
use Rattle.std.proofs.Common.{◌≡◌, ◌≤◌, ◌<◌, ℕ, Bool, true, false, not, if◌then◌else◌, List, [], length, get_or, map, refl, sym, ap, subst, arith, inl, inr}
use Rattle.std.proofs.Math.ListN.{get_or-eq_default}
use Rattle.std.proofs.lemmas.Bool.{cases_lt}
use Rattle.std.proofs.lemmas.List.Elements.{All-nil}
use Rattle.std.proofs.lemmas.List.{length-map, get_or-map}
use Rattle.mm_scope.specs.Contents.{events_of, symbols_of, statements_of, labels_of, stated_at, is_variable_of}
use Rattle.mm_scope.specs.Looks.{constants}
use Rattle.mm_stated.specs.Stated.{no_statement}
use Rattle.mm_subst.specs.Statements.{symbol_of, statement_of}
use Rattle.mm_subst.specs.declared.symbol.WSym.TheVariants.{Const, Var}
use Rattle.mm_plain.specs.Valid.{Setting, IsKnownSymbol, IsString}
use Rattle.mm_plain.specs.Forms.{IsFormed}
use Rattle.mm_plain.proofs.Begun.{IsWhole}
use Rattle.mm_plain.proofs.Reading.{all_formed, as_many}

-- there are as many statements as labels
pub counted : (bytes : List ℕ) → length (statements_of bytes) ≡ length (labels_of bytes)
unfolding statements_of labels_of
counted bytes = as_many (events_of bytes)

whole_at : (bytes : List ℕ) (id : ℕ) → id < length (statements_of bytes) → IsWhole (length (symbols_of bytes)) (constants (events_of bytes)) (stated_at bytes id)
unfolding statements_of symbols_of
whole_at bytes id small = all_formed bytes id no_statement small

-- each labelled statement has its form
pub formed : (bytes : List ℕ) (id : ℕ) → id < length (labels_of bytes) → IsFormed bytes id
formed bytes id small =
    let w = whole_at bytes id (omega (arith, small, counted bytes)) in
    record { symbols = w.own; short = w.short; some = w.some; typecode = ap not w.typecode; pair = w.pair; variable = λ is. ap not (w.variable is) }

own_symbol : (c : Setting) (n : ℕ) → n < length (symbols_of c.bytes) → (b : Bool) → is_variable_of c.bytes n ≡ b → IsKnownSymbol c (if b then Var n else Const n)
own_symbol c n small true e = (small, e)
own_symbol c n small false e = (small, e)

own_string : (c : Setting) (id : ℕ) → id < length (labels_of c.bytes) → IsString c (statement_of c.bytes id)
unfolding statement_of
own_string c id small =
    let f = formed c.bytes id small in
    let ss : List ℕ = (stated_at c.bytes id).symbols in
    record {
      symbols = λ k d less. let few : k < length ss = omega (arith, less, length-map ss (symbol_of c.bytes)) in
          subst (IsKnownSymbol c) (sym (get_or-map (symbol_of c.bytes) ss k 0 d few)) (own_symbol c (get_or ss k 0) (f.symbols k 0 few) (is_variable_of c.bytes (get_or ss k 0)) refl);
      short = omega (arith, f.short, length-map ss (symbol_of c.bytes));
    }

empty_string : (c : Setting) → IsString c []
empty_string c = record { symbols = All-nil (IsKnownSymbol c); short = omega arith }

-- there is no other statement
pub no_other : (bytes : List ℕ) (id : ℕ) → length (labels_of bytes) ≤ id → stated_at bytes id ≡ no_statement
no_other bytes id other = get_or-eq_default (statements_of bytes) no_statement (omega (arith, other, counted bytes))

other_string : (c : Setting) (id : ℕ) → length (labels_of c.bytes) ≤ id → IsString c (statement_of c.bytes id)
unfolding statement_of
other_string c id other = subst (λ s. IsString c (map (symbol_of c.bytes) s.symbols)) (sym (no_other c.bytes id other)) (empty_string c)

-- each statement is a string; what is none is empty
pub string_of_statement : (c : Setting) (id : ℕ) → IsString c (statement_of c.bytes id)
string_of_statement c id = elim (cases_lt id (length (labels_of c.bytes))) [ inl own ↦ own_string c id own | inr other ↦ other_string c id other ]
