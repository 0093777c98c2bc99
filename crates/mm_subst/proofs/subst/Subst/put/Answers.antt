use Rattle.std.proofs.Common.{◌≡◌, ◌++◌, ◌∷◌, [], None, Some, List, length, cond, nat_lt, ap, sym, subst, ◌∙◌, arith}
use Rattle.mm_subst.specs.Places.{few, kept_at, ArePlaces}
use Rattle.mm_subst.specs.Symbols.{is_same}
use Rattle.mm_subst.specs.Substitutions.{Pairs, value_at, HasDistinctKeys}
use Rattle.mm_subst.proofs.Keys.{HasDistinctKeys-put}
use Rattle.mm_subst.proofs.Placing.{places_more}
use Rattle.mm_subst.proofs.subst.Subst.put.Goals as goal

pub invariant_of-self-2 : goal.invariant_of-self-2
invariant_of-self-2 c =
    let pairs : Pairs = c.self.inside.pairs.items in
    let new : value_at pairs c.args.key ≡ None = ap (λ ps. value_at ps c.args.key) c.self.view_is ∙ c.requires in
    let more : c.push.new.self.items ≡ pairs ++ (c.args.key, c.args.value) ∷ [] = c.in_ok-push.ensures.items ∙ ap (λ ps. ps ++ (c.args.key, c.args.value) ∷ []) c.reserve.ensures.items in
    let len : c.len.result ≡ length pairs = omega (arith, c.len.ensures, ap length c.reserve.ensures.items) in
    rw more (
      HasDistinctKeys-put pairs c.args.key c.args.value c.self.invariant.0 new,
      places_more pairs c.self.inside.places c.keep_place.new.places c.args.key c.args.value new c.self.invariant.1 (λ x.
          subst (λ n. kept_at c.keep_place.new.places x ≡ cond (nat_lt n few) (kept_at c.self.inside.places x) (cond (is_same c.args.key x) (Some n) (kept_at c.self.inside.places x)))
          len (c.in_ok-keep_place.ensures.ok x)),
    )
