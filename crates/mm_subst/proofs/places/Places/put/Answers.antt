use Rattle.std.proofs.Common.{◌≡◌, ℕ, Bool, cond, List, [], ◌∷◌, Some, refl, ap, sym, ◌∙◌, ◌==◌, arith}
use Rattle.std.specs.Map.{lookup}
use Rattle.std.specs.Ordering.{is_eq, nat_cmp}
use Rattle.mm_subst.specs.Places.{kept_at}
use Rattle.mm_subst.specs.Symbols.{is_same}
use Rattle.mm_subst.specs.contracts.symbol.WSymOrd.TheImpl.{cmp-value}
use Rattle.mm_subst.specs.declared.symbol.WSym.{WSym}
use Rattle.mm_subst.specs.declared.symbol.WSym.TheVariants.{Const, Var, Work}
use Rattle.mm_subst.proofs.places.Places.put.Goals as goal

numbers : (m n : ℕ) → is_eq (nat_cmp m n) ≡ m == n
numbers m n = grind arith

-- the order tells symbols apart as the test does
ranks : (x y : WSym) → is_eq (cmp-value.it x y) ≡ is_same x y
ranks (Const m) (Const n) = numbers m n
ranks (Var m) (Var n) = numbers m n
ranks (Work m) (Work n) = numbers m n
ranks (Const m) (Var n) = refl
ranks (Const m) (Work n) = refl
ranks (Var m) (Const n) = refl
ranks (Var m) (Work n) = refl
ranks (Work m) (Const n) = refl
ranks (Work m) (Var n) = refl

same_found : (p q : WSym → Bool) → ((x : WSym) → p x ≡ q x) → (es : List (WSym × ℕ)) → lookup p es ≡ lookup q es
same_found p q h [] = refl
same_found p q h (e ∷ es) = ap (λ b. cond b (Some e.1) (lookup p es)) (h e.0) ∙ ap (cond (q e.0) (Some e.1)) (same_found p q h es)

pub returns-clause-ok : goal.returns-clause-ok
returns-clause-ok c = λ x.
    sym (same_found (λ k. is_eq (cmp-value.it x k)) (is_same x) (ranks x) c.insert.new.self.entries)
    ∙ c.in_ok-insert.ensures.updates.0 x
    ∙ ap (λ b. cond b (Some c.args.place) (lookup (λ k. is_eq (cmp-value.it x k)) c.self.inside.places.entries)) (ranks c.args.key x)
    ∙ ap (cond (is_same c.args.key x) (Some c.args.place)) (same_found (λ k. is_eq (cmp-value.it x k)) (is_same x) (ranks x) c.self.inside.places.entries)
    ∙ ap (λ places. cond (is_same c.args.key x) (Some c.args.place) (kept_at places x)) c.self.view_is
