-- The chosen proof of a goal is known at its limit of ranks.
use Rattle.std.proofs.Common.{◌≡◌, ◌<◌, ◌≤◌, ◌*◌, ℕ, zero, suc, Bool, true, false, cond, List, [], ◌∷◌, Option, None, Some, length, get_or, refl, sym, ◌∙◌, ap, arith, subst}
use Rattle.std.specs.List.{AllByRecursion}
use Rattle.std.proofs.lemmas.Bool.{le-leb, lt-leb}
use Rattle.mm_scope.specs.Contents.{labels_of, symbols_of}
use Rattle.mm_subst.specs.declared.symbol.WSym.{WSym}
use Rattle.mm_subst.specs.declared.symbol.WSym.TheVariants.{Const, Var, Work}
use Rattle.mm_subst.specs.Applied.{most_symbols}
use Rattle.mm_subst.specs.Statements.{statement_of}
use Rattle.mm_subst.specs.Symbols.{has_work}
use Rattle.mm_unify.proofs.Sorted.{among_mapped}
use Rattle.mm_plain.specs.Premises.{variables_for}
use Rattle.mm_chart.specs.Options.{is_there, on}
use Rattle.mm_improve.specs.Assertions.{Terms, plain_assertions}
use Rattle.mm_improve.specs.Ranks as ranks
use Rattle.mm_chart.specs.Items.{Assertion, chosen}
use Rattle.mm_improve.specs.Grammars.{split, place, variable_item, items_of, seen_with, codes_for, assertion_of, grammar_of, chosen_by}
use Rattle.mm_improve.specs.Proving.{rank_limit, RanksAreLimited}
use Rattle.mm_improve.proofs.Agreeing.{VariablesDiffer, plain_usable, are_plain, are_stated}
use Rattle.mm_improve.proofs.Limits.{IsOwnCode, HasOwnCodes, HasCodes, places, ranks_below}
use Rattle.mm_improve.proofs.Plain.{own_codes, own_code}
use Rattle.mm_improve.proofs.Ranking.{linked}
use Rattle.mm_improve.proofs.Translating.{place-at}

own_at : (count : ℕ) (codes : List WSym) (k : ℕ) → k < length codes → AllByRecursion (IsOwnCode count) codes → IsOwnCode count (get_or codes k (Const 0))
own_at count [] k l h = absurd (omega arith)
own_at count (x ∷ codes) zero l h = h.0
own_at count (x ∷ codes) (suc k) l h = own_at count codes k (omega arith) h.1

-- the items of a string have the typecodes of the variables alone
own_items : (count : ℕ) (keys : List ℕ) (codes : List WSym) → length codes ≡ length keys → AllByRecursion (IsOwnCode count) codes → (s : List WSym) (seen : List ℕ) → HasOwnCodes count (items_of keys codes seen s)
own_items count keys codes e h [] seen = tt
own_items count keys codes e h (Const n ∷ s) seen = own_items count keys codes e h s seen
own_items count keys codes e h (Work n ∷ s) seen = own_items count keys codes e h s seen
own_items count keys codes e h (Var n ∷ s) seen = by (place keys n) refl (place seen n) (own_items count keys codes e h s (seen_with keys seen (Var n)))
  where
    by : (k : Option ℕ) → place keys n ≡ k → (j : Option ℕ) → HasOwnCodes count (items_of keys codes (seen_with keys seen (Var n)) s) → HasOwnCodes count (variable_item codes n k j ∷ items_of keys codes (seen_with keys seen (Var n)) s)
    by None q j rest = rest
    by (Some k) q None rest = (own_at count codes k (let l = (place-at keys n k q).0 in omega (arith, l, e)) h, rest)
    by (Some k) q (Some j) rest = rest

own_grammar : (c : Terms) → VariablesDiffer c.bytes → c.at < length (labels_of c.bytes) → HasCodes (length (symbols_of c.bytes)) (grammar_of c)
own_grammar c differ low a m =
    let r = among_mapped (assertion_of c.bytes) a (plain_assertions c) m in
    let id = r.0 in
    let u = plain_usable c low id r.1 in
    let p = are_plain c differ low id r.1 in
    let count = length (symbols_of c.bytes) in
    subst (λ (x : Assertion). IsOwnCode count x.code × HasOwnCodes count x.items) (sym r.2)
    (own_code c.bytes id u.0.own, own_items count (variables_for c.bytes id) (codes_for c.bytes id) p.as_many (own_codes c.bytes id u.0.assertion u.1) (split (statement_of c.bytes id)).1 [])

there_by : {A B : Type 0} (f : A → B) (o : Option A) (b : B) → on f o ≡ Some b → is_there o ≡ true
there_by f None b h = absurd (cc)
there_by f (Some a) b h = refl

none_by : {A B : Type 0} (f : A → B) (o : Option A) → on f o ≡ None → o ≡ None
none_by f None h = refl
none_by f (Some a) h = absurd (cc)

module _ (c : Terms) (differ : VariablesDiffer c.bytes) (low : c.at < length (labels_of c.bytes)) (code : WSym) (t : List WSym) (fit : (has_work (code ∷ t) ≡ false) × (length (code ∷ t) ≤ most_symbols)) where
  pub link : (r : ℕ) → ranks.chosen c r (code ∷ t) ≡ on (chosen_by c.bytes) (chosen (grammar_of c) r (code, t))
  link r = linked c (are_plain c differ low) (are_stated c low) r code t fit

  within_limit : (k : ℕ) → (x : ranks.Chosen) → x.rank ≡ k → ranks.IsAnswer c (code ∷ t) (Some x) → k ≤ rank_limit c.bytes (code ∷ t)
  within_limit zero x e h = omega arith
  within_limit (suc r) x e h =
      let here : ranks.chosen c (suc r) (code ∷ t) ≡ Some x = h (suc r) ∙ ap (λ (b : Bool). cond b (Some x) None) (le-leb x.rank (suc r) (omega (arith, e))) in
      let before : ranks.chosen c r (code ∷ t) ≡ None = h r ∙ ap (λ (b : Bool). cond b (Some x) None) (lt-leb x.rank r (omega (arith, e))) in
      let now = there_by (chosen_by c.bytes) (chosen (grammar_of c) (suc r) (code, t)) x (sym (link (suc r)) ∙ here) in
      let none = none_by (chosen_by c.bytes) (chosen (grammar_of c) r (code, t)) (sym (link r) ∙ before) in
      let same : places t ≡ length (code ∷ t) = omega arith in
      subst (λ (n : ℕ). suc r ≤ length (symbols_of c.bytes) * (n * n)) same (ranks_below (grammar_of c) (length (symbols_of c.bytes)) (own_grammar c differ low) t code r (now, none))

  known_at_limit : (o : Option ranks.Chosen) → ranks.IsAnswer c (code ∷ t) o → ranks.chosen c (rank_limit c.bytes (code ∷ t)) (code ∷ t) ≡ o
  known_at_limit None h = h (rank_limit c.bytes (code ∷ t))
  known_at_limit (Some x) h = h (rank_limit c.bytes (code ∷ t)) ∙ ap (λ (b : Bool). cond b (Some x) None) (le-leb x.rank (rank_limit c.bytes (code ∷ t)) (within_limit x.rank x refl h))

pub ranks_are_limited : (bytes : List ℕ) → VariablesDiffer bytes → RanksAreLimited bytes
ranks_are_limited bytes differ c e low code t plain short o h =
    let own : c.at < length (labels_of c.bytes) = subst (λ b. c.at < length (labels_of b)) (sym e) low in
    ap (λ (b : List ℕ). ranks.chosen c (rank_limit b (code ∷ t)) (code ∷ t)) (sym e) ∙ known_at_limit c (subst VariablesDiffer (sym e) differ) own code t (plain, short) o h
