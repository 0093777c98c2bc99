-- A visit of a frame is a visit of its node.
use Rattle.std.proofs.Common.{ℕ, ◌+◌, ◌-◌, ◌≡◌, ◌<◌, ◌≤◌, List, [], ◌∷◌, ◌++◌, Bool, false, take, drop, length, reverse, Result, Ok, Err, IfOk, refl, sym, ap, ◌∙◌, subst, arith, append_assoc, length-append, length-take, length-drop}
use Rattle.std.specs.List.{list_any}
use Rattle.std.proofs.lemmas.List.{append-nil, take_all}
use Rattle.std.proofs.Math.Seq.{take-append_seam, take-append-add}
use Rattle.mm_subst.specs.declared.symbol.WSym.{WSym}
use Rattle.mm_subst.specs.declared.symbol.WSym.TheVariants.{Work}
use Rattle.mm_subst.specs.Substitutions.{Pairs, value_of, applied}
use Rattle.mm_subst.proofs.Replaced.{applied-append, applied-one}
use Rattle.mm_unify.specs.declared.bound.Bound.{Bound}
use Rattle.mm_unify.specs.declared.advance.Open.{Open}
use Rattle.mm_unify.specs.declared.frame.Frame.{Frame}
use Rattle.mm_unify.specs.declared.frame.Kind.TheVariants.{Whole, Longer}
use Rattle.mm_unify.specs.Variables.{numbers}
use Rattle.mm_unify.specs.Forbidden.{Forbidden}
use Rattle.mm_unify.specs.Search.{Node, Visit, plain_count, visit}
use Rattle.mm_unify.specs.Parts.{IsPlain, part, parts_of, AreWithin, Opens, IsFresh}
use Rattle.mm_unify.specs.Frames.{node_of, with_value, open_value, theta_by, theta_of, node_in, some_early, some_long, StepFits, Fits, MayGrow, Adds, Visits}
use Rattle.mm_unify.proofs.Mapping.{applied_everywhere}
use Rattle.mm_unify.proofs.Opened.{IsFair}
use Rattle.mm_unify.proofs.Along.{last_own, last_self, node_same, restricted_same, visit_further, not_met, applied_last, front_part, open_whole, open_rest, plain_take}
use Rattle.mm_unify.proofs.Growing.{no_found}

pub ok_map : {X E : Type 0} (r : Result X E) (P Q : X → Type 0) → ((x : X) → P x → Q x) → IfOk r P → IfOk r Q
ok_map (Ok x) P Q f h = f x h
ok_map (Err e) P Q f h = tt

pub ok_any : {X E : Type 0} (r : Result X E) (Q : X → Type 0) → ((x : X) → Q x) → IfOk r Q
ok_any (Ok x) Q f = f x
ok_any (Err e) Q f = tt

pub ok_both : {X E : Type 0} (r : Result X E) (P Q R : X → Type 0) → ((x : X) → P x → Q x → R x) → IfOk r P → IfOk r Q → IfOk r R
ok_both (Ok x) P Q R f h k = f x h k
ok_both (Err e) P Q R f h k = tt

pub adds_same : (rule : Forbidden) (a b : List WSym) (path : List Bound) (n m : Node) (before now : List Frame) → visit rule n ≡ visit rule m → Adds rule a b path n before now → Adds rule a b path m before now
adds_same rule a b path n m before now e h = record { fresh = h.fresh; now_is = h.now_is; nodes = h.nodes ∙ ap (λ v. reverse v.children) e; fit = h.fit }

pub no_adds : (rule : Forbidden) (a b : List WSym) (path : List Bound) (n : Node) (frames : List Frame) → (visit rule n).children ≡ [] → Adds rule a b path n frames frames
no_adds rule a b path n frames e = record { fresh = []; now_is = sym (append-nil frames); nodes = ap reverse (sym e); fit = tt }

pub none_more : (found : List Pairs) (v : Visit) → v.found ≡ [] → found ≡ found ++ v.found
none_more found v e = sym (ap (λ us. found ++ us) e ∙ append-nil found)

-- a variable of which nothing is found yet
module _ (a b : List WSym) (path : List Bound) (j : ℕ) (o : Open) (h : IsFresh a b path j o) where
  fresh_value : open_value b o ≡ Work o.number ∷ []
  fresh_value = let n = h.none in let k : o.to - o.from ≡ 0 = omega arith in ap (λ (i : ℕ). take i (drop o.from b) ++ Work o.number ∷ []) k

  fresh_theta : (c : WSym) → value_of (parts_of b path) c ≡ value_of (with_value b path o.number (open_value b o)) c
  fresh_theta c = sym (last_self (parts_of b path) (Work o.number) h.opens.free c) ∙ ap (λ w. value_of (with_value b path o.number w) c) (sym fresh_value)

  pub may_grow : (rule : Forbidden) (total : ℕ) (early : Bool) → AreWithin b path → some_long a b (parts_of b path) ≡ false → total ≡ plain_count (applied (parts_of b path) a) → early ≡ some_early rule a b (parts_of b path) →
      MayGrow rule a b path o total early
  may_grow rule total early w s t e = record {
    opens = h.opens;
    within = w;
    short = s;
    fine = λ f. sym e ∙ f;
    total_is = t ∙ ap plain_count (applied_everywhere (parts_of b path) (with_value b path o.number (open_value b o)) a fresh_theta);
    early_is = e ∙ ap (λ vs. list_any (λ q. rule.so_far q.1) vs) (restricted_same (parts_of b path) (with_value b path o.number (open_value b o)) fresh_theta (numbers (a ++ b)));
  }

  pub fresh_visit : (rule : Forbidden) → IsPlain b → visit rule (node_of a b (parts_of b path) j) ≡ visit rule (node_of a b (with_value b path o.number (open_value b o)) o.to)
  fresh_visit rule plain =
      let theta = with_value b path o.number (open_value b o) in
      let rest = Work o.number ∷ applied theta (drop (o.at + 1) a) in
      let whole = open_rest a b plain path o h.opens in
      ap (visit rule) (node_same a b (parts_of b path) theta j fresh_theta)
      ∙ visit_further rule a b theta j o.to rest h.later h.opens.within whole
      ∙ sym (visit_further rule a b theta o.to o.to rest (omega arith) h.opens.within whole)

-- a variable whose value is found
abbrev pub bound_of : Frame → Bound
bound_of f = record { number = f.number; from = f.from; to = f.to + 1 }

parts-last : (b : List WSym) (path : List Bound) (q : Bound) → parts_of b (path ++ q ∷ []) ≡ with_value b path q.number (part b q.from q.to)
parts-last b [] q = refl
parts-last b (p ∷ path) q = ap (λ t. (Work p.number, part b p.from p.to) ∷ t) (parts-last b path q)

module _ (rule : Forbidden) (fair : IsFair rule) (a b : List WSym) (plain : IsPlain b) (f : Frame) (path : List Bound) (fits : Fits rule a b (take f.depth path) f) where
  abbrev Q : List Bound
  Q = take f.depth path

  abbrev w : List WSym
  w = part b f.from (f.to + 1)

  module _ (whole : f.kind ≡ Whole) where
    whole_step : StepFits Whole rule a b Q f
    whole_step = subst (λ k. StepFits k rule a b Q f) whole fits.step

    rest_at : List WSym
    rest_at = applied (with_value b Q f.number w) (drop (f.at + 1) a)

    within_at : f.to + 1 ≤ length b
    within_at = let l = whole_step.1 in omega arith

    joined : take f.from b ++ w ≡ take (f.to + 1) b
    joined = let i = whole_step.0.ordered in front_part b f.from (f.to + 1) (omega arith)

    whole_applied : applied (with_value b Q f.number w) a ≡ take (f.to + 1) b ++ applied (with_value b Q f.number w) (drop (f.at + 1) a)
    whole_applied =
        open_whole a b plain Q _ whole_step.0 w
        ∙ sym (append_assoc (take f.from b) w (applied (with_value b Q f.number w) (drop (f.at + 1) a)))
        ∙ ap (λ s. s ++ applied (with_value b Q f.number w) (drop (f.at + 1) a)) joined

    at_within : f.at < length a
    at_within =
        let e = ap length whole_step.0.parts in
        omega (arith, length-append (take f.at a) (Work f.number ∷ drop (f.at + 1) a), length-take f.at a, length-drop (f.at + 1) a)

    take_next : take (f.at + 1) a ≡ take f.at a ++ Work f.number ∷ []
    take_next =
        let l : length (take f.at a) ≡ f.at = let m = at_within in omega (arith, length-take f.at a) in
        ap (take (f.at + 1)) whole_step.0.parts
        ∙ ap (λ (n : ℕ). take (n + 1) (take f.at a ++ Work f.number ∷ drop (f.at + 1) a)) (sym l)
        ∙ take-append-add (take f.at a) (Work f.number ∷ drop (f.at + 1) a) 1

    whole_come : applied (with_value b Q f.number w) (take (f.at + 1) a) ≡ take (f.to + 1) b
    whole_come =
        let s = whole_step.0 in
        let front = not_met (parts_of b Q) f.number (take f.at a) s.free (subst IsPlain (sym s.come) (plain_take f.from b plain)) in
        ap (applied (with_value b Q f.number w)) take_next
        ∙ applied-append (with_value b Q f.number w) (take f.at a) (Work f.number ∷ [])
        ∙ ap (λ t. t ++ applied (with_value b Q f.number w) (Work f.number ∷ [])) (applied_last (parts_of b Q) (Work f.number) w (take f.at a) front ∙ s.come)
        ∙ ap (λ t. take f.from b ++ t) (applied-one (with_value b Q f.number w) (Work f.number) ∙ last_own (parts_of b Q) (Work f.number) w s.free)
        ∙ joined

    module _ (path' : List Bound) (now : path' ≡ Q ++ bound_of f ∷ []) where
      theta_now : theta_of b Q f ≡ parts_of b path'
      theta_now = ap (λ k. theta_by k b Q f.number f.from f.to) whole ∙ sym (ap (parts_of b) now ∙ parts-last b Q (bound_of f))

      with_now : with_value b Q f.number w ≡ parts_of b path'
      with_now = sym (ap (parts_of b) now ∙ parts-last b Q (bound_of f))

      pub come_now : applied (parts_of b path') (take (f.at + 1) a) ≡ take (f.to + 1) b
      come_now = ap (λ t. applied t (take (f.at + 1) a)) (sym with_now) ∙ whole_come

      pub short_now : some_long a b (theta_of b Q f) ≡ false → some_long a b (parts_of b path') ≡ false
      short_now h = ap (some_long a b) (sym theta_now) ∙ h

      pub early_now : f.early ≡ some_early rule a b (parts_of b path')
      early_now = fits.early ∙ ap (some_early rule a b) theta_now

      visit_now : visit rule (node_of a b (parts_of b path') (f.to + 1)) ≡ visit rule (node_in a b path f)
      visit_now =
          let rest = applied (with_value b Q f.number w) (drop (f.at + 1) a) in
          let e : applied (parts_of b path') a ≡ take (f.to + 1) b ++ rest = ap (λ t. applied t a) (sym with_now) ∙ whole_applied in
          visit_further rule a b (parts_of b path') (f.to + 1) (f.to + 1) rest (omega arith) within_at e
          ∙ sym (visit_further rule a b (parts_of b path') f.to (f.to + 1) rest (omega arith) within_at e)
          ∙ ap (λ t. visit rule (node_of a b t f.to)) (sym theta_now)

      pub visits_whole : (frames frames' : List Frame) (found found' : List Pairs) → f.depth ≤ length path → Adds rule a b path' (node_of a b (parts_of b path') (f.to + 1)) frames frames' →
          found' ≡ found ++ (visit rule (node_of a b (parts_of b path') (f.to + 1))).found → Visits rule a b f path path' frames frames' found found'
      visits_whole frames frames' found found' d h e =
          let l : length (take f.depth path) ≡ f.depth = omega (arith, length-take f.depth path) in
          let k : length path' ≡ f.depth + 1 = ap length now ∙ (let m = length-append Q (bound_of f ∷ []) in omega arith) in
          record {
            kept = ap (take f.depth) now ∙ ap (λ (n : ℕ). take n (Q ++ bound_of f ∷ [])) (sym l) ∙ take-append_seam Q (bound_of f ∷ []);
            deep = omega arith;
            adds = adds_same rule a b path' (node_of a b (parts_of b path') (f.to + 1)) (node_in a b path f) frames frames' visit_now h;
            found_is = e ∙ ap (λ v. found ++ v.found) visit_now;
          }

  abbrev open_next : Open
  open_next = record { at = f.at; number = f.number; from = f.from; to = f.to + 1 }

  module _ (longer : f.kind ≡ Longer) where
    longer_step : StepFits Longer rule a b Q f
    longer_step = subst (λ k. StepFits k rule a b Q f) longer fits.step

    theta_longer : theta_of b Q f ≡ with_value b Q f.number (open_value b open_next)
    theta_longer = ap (λ k. theta_by k b Q f.number f.from f.to) longer

    opens_next : Opens a b Q open_next
    opens_next =
        let s = longer_step.0 in
        record { parts = s.parts; free = s.free; come = s.come; ordered = let i = s.ordered in omega arith; within = let l = longer_step.1 in omega arith }

    pub grows_next : MayGrow rule a b Q open_next f.total f.early
    grows_next = record {
      opens = opens_next;
      within = fits.within;
      short = fits.short;
      fine = λ e. longer_step.2;
      total_is = fits.total ∙ ap (λ t. plain_count (applied t a)) theta_longer;
      early_is = fits.early ∙ ap (some_early rule a b) theta_longer;
    }

    next_visit : visit rule (node_of a b (with_value b Q f.number (open_value b open_next)) (f.to + 1)) ≡ visit rule (node_in a b path f)
    next_visit =
        let theta = with_value b Q f.number (open_value b open_next) in
        let rest = Work f.number ∷ applied theta (drop (f.at + 1) a) in
        let e = open_rest a b plain Q open_next opens_next in
        visit_further rule a b theta (f.to + 1) (f.to + 1) rest (omega arith) opens_next.within e
        ∙ sym (visit_further rule a b theta f.to (f.to + 1) rest (omega arith) opens_next.within e)
        ∙ ap (λ t. visit rule (node_of a b t f.to)) (sym theta_longer)

    pub visits_longer : (path' : List Bound) (frames frames' : List Frame) (found : List Pairs) → f.depth ≤ length path → path' ≡ Q → Adds rule a b path' (node_of a b (with_value b path' f.number (open_value b open_next)) (f.to + 1)) frames frames' →
        Visits rule a b f path path' frames frames' found found
    visits_longer path' frames frames' found d e h =
        let l : length (take f.depth path) ≡ f.depth = omega (arith, length-take f.depth path) in
        let k : length path' ≡ f.depth = ap length e ∙ l in
        record {
          kept = take_all f.depth path' (omega arith) ∙ e;
          deep = omega arith;
          adds = adds_same rule a b path' (node_of a b (with_value b path' f.number (open_value b open_next)) (f.to + 1)) (node_in a b path f) frames frames'
              (ap (λ p. visit rule (node_of a b (with_value b p f.number (open_value b open_next)) (f.to + 1))) e ∙ next_visit) h;
          found_is = none_more found (visit rule (node_in a b path f)) (ap (λ v. v.found) (sym next_visit) ∙ no_found rule fair a b Q open_next plain f.total f.early grows_next);
        }
