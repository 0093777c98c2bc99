use Rattle.std.proofs.Common.{◌≡◌, ℕ, List, [], ◌∷◌, ◌++◌, length, ap, sym, refl, subst, ◌∙◌, arith}
use Rattle.mm_plain.specs.declared.plain.Plain.{Plain}
use Rattle.mm_plain.specs.Shape.{Proof}
use Rattle.mm_tree.specs.Keyed.{IsKeyed}
use Rattle.mm_tree.specs.Lines.{Line}
use Rattle.mm_tree.specs.Versions.{Versions, hand_plain}
use Rattle.mm_tree.specs.Trees.{FindsKeys, IsWhole}
use Rattle.mm_tree.specs.View.{Shared, values}
use Rattle.mm_tree.proofs.Keeping.{seven, seven-same}
use Rattle.mm_tree.proofs.Made.{rooted-whole, rooted-plain}
use Rattle.mm_tree.proofs.Finding.{finds-rooted}
use Rattle.mm_tree.proofs.tree.rooted.Goals as goal

abbrev proof_by : ℕ → Plain → Proof
proof_by next p = record { plain = p; next = next }

pub invariant_of-result : goal.invariant_of-result
invariant_of-result c =
    let n : ℕ = c.len-begun_length.result in
    let line : Line = c.args.trail.items in
    let is : seven (values c.push.new.self.items) line (values c.new.result.items) c.new-2.result.items 0 n 1 ≡ seven (c.args.root.value ∷ []) line [] [] 0 n 1
    = seven-same (ap values (c.in_ok-push.ensures.items ∙ ap (λ (l : List Shared). l ++ (c.args.root ∷ [])) c.new-roots.ensures.items)) refl (ap values c.new.ensures.items) c.new-2.ensures.items refl refl refl in
    let many : n ≡ length line = c.len-begun_length.ensures ∙ c.args.trail.ok.0 in
    record {
      whole = subst (λ (v : Versions). IsWhole v c.args.next) (sym is) (rooted-whole c.args.root.value line n c.args.next many c.requires.sound);
      roots = omega (arith, c.push.new.self.ok.0, c.push.new.self.ok.1, ap length (c.in_ok-push.ensures.items ∙ ap (λ (l : List Shared). l ++ (c.args.root ∷ [])) c.new-roots.ensures.items), c.new.result.ok.0, ap length c.new.ensures.items);
      trail = omega (arith, c.args.trail.ok.0, c.args.trail.ok.1, c.len-begun_length.ensures, c.new-2.result.ok.0, ap length c.new-2.ensures.items);
      keyed = subst (FindsKeys c.in_ok-keyed.keyed) (sym is) (finds-rooted c.in_ok-keyed.keyed c.args.root.value line n many (subst (IsKeyed c.in_ok-keyed.keyed) c.as_slice.ensures.value c.in_ok-keyed.ensures));
    }

pub returns-clause-proof : goal.returns-clause-proof
returns-clause-proof c =
    let n : ℕ = c.len-begun_length.result in
    let line : Line = c.args.trail.items in
    let is : seven (values c.push.new.self.items) line (values c.new.result.items) c.new-2.result.items 0 n 1 ≡ seven (c.args.root.value ∷ []) line [] [] 0 n 1
    = seven-same (ap values (c.in_ok-push.ensures.items ∙ ap (λ (l : List Shared). l ++ (c.args.root ∷ [])) c.new-roots.ensures.items)) refl (ap values c.new.ensures.items) c.new-2.ensures.items refl refl refl in
    let many : n ≡ length line = c.len-begun_length.ensures ∙ c.args.trail.ok.0 in
    ap (λ (v : Versions). proof_by c.args.next (hand_plain v)) is ∙ ap (proof_by c.args.next) (rooted-plain c.args.root.value line n many)
