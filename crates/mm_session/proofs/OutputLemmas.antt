-- What a screen has taken of a text.
use Rattle.std.proofs.Common.{◌≡◌, ◌<◌, ◌≤◌, ◌+◌, ℕ, Bool, List, [], ◌∷◌, ◌++◌, length, take, sym, ◌∙◌, ap, subst, arith, length-append, Result, Ok, Err, OnErr}
use Rattle.std.proofs.Math.Seq.{take-append-add}
use Rattle.std.proofs.lemmas.List.{take-append-le}
use Rattle.mm_base.specs.Sink.{Gains}
use Rattle.mm_base.proofs.SinkLemmas.{gains_then}
use Rattle.mm_session.specs.Output.{GainsLess, GainsFirst, SaysLess}
use Rattle.mm_session.specs.Logs.{Event, Says}
use Rattle.mm_session.specs.Hearing.{RecorderOf, Recording, Hears}
use Rattle.mm_session.proofs.HearingLemmas.{hears_both, hears_then}

-- a fact for an error holds of a result where it holds at all
pub on_err : {T E : Type 0} (P : Type 0) (r : Result T E) → P → OnErr r P
on_err P (Ok x) p = tt
on_err P (Err e) p = p

module _ {K : Type 0} (tells : K → Bool) (held : K → List ℕ) where
  pub less_at : (a b : K) (text : List ℕ) (taken : ℕ) → taken < length text → Gains tells held a b (take taken text) → GainsLess tells held a b text
  less_at a b text taken less gained = record { taken = taken; less = less; gained = gained }

  -- of one byte it has taken none
  pub less_of_one : (a b : K) (x : ℕ) → GainsLess tells held a b (x ∷ []) → Gains tells held a b []
  less_of_one a b x g = let less = g.less in let none : g.taken ≡ 0 = omega (arith, less) in subst (λ (n : ℕ). Gains tells held a b (take n (x ∷ []))) none g.gained

  -- a longer text
  pub less_of_more : (a b : K) (text more : List ℕ) → GainsLess tells held a b text → GainsLess tells held a b (text ++ more)
  less_of_more a b text more g =
      let less = g.less in record {
        taken = g.taken;
        less = omega (arith, less, length-append text more);
        gained = subst (λ (x : List ℕ). Gains tells held a b x) (sym (take-append-le g.taken text more (omega (arith, less)))) g.gained;
      }

  -- after a piece that it has taken whole
  pub less_after : (a b c : K) (front text : List ℕ) → Gains tells held a b front → GainsLess tells held b c text → GainsLess tells held a c (front ++ text)
  less_after a b c front text first g =
      let less = g.less in record {
        taken = length front + g.taken;
        less = omega (arith, less, length-append front text);
        gained = subst (λ (x : List ℕ). Gains tells held a c x) (sym (take-append-add front text g.taken)) (gains_then tells held a b c front (take g.taken text) first g.gained);
      }

  -- the front of a text, with more to come
  pub first_after : (a b c : K) (least : ℕ) (front text more whole : List ℕ) → whole ≡ front ++ (text ++ more) → least ≤ length front → Gains tells held a b front → GainsLess tells held b c text → GainsFirst tells held a c least whole
  first_after a b c least front text more whole is le first g =
      let less = g.less in
      let first_bytes : take (length front + g.taken) (front ++ (text ++ more)) ≡ front ++ take g.taken text =
      take-append-add front (text ++ more) g.taken ∙ ap (λ (x : List ℕ). front ++ x) (take-append-le g.taken text more (omega (arith, less))) in
      let length_is : length whole ≡ length (front ++ (text ++ more)) = ap length is in
      record {
        taken = length front + g.taken;
        least = omega (arith, le);
        most = omega (arith, less, length_is, length-append front (text ++ more), length-append text more);
        gained = subst (λ (x : List ℕ). Gains tells held a c x) (sym (ap (λ (x : List ℕ). take (length front + g.taken) x) is ∙ first_bytes))
            (gains_then tells held a b c front (take g.taken text) first g.gained);
      }

-- The same of the recorders too
module _ {K R : Type 0} (tells : K → Bool) (held : K → List ℕ) (rc : RecorderOf R) where
  -- of the screen alone
  pub less_of : (a b : K) (from to : Recording R) (before : List Event) (text : List ℕ) → SaysLess tells held rc a from b to before text → GainsLess tells held a b text
  less_of a b from to before text g = record { taken = g.taken; less = g.less; gained = g.gained }

  pub says_less : (a b : K) (from to : Recording R) (text : List ℕ) (taken : ℕ) → taken < length text → Gains tells held a b (take taken text) → Hears rc from to (Says (take taken text) ∷ []) → SaysLess tells held rc a from b to [] text
  says_less a b from to text taken less gained heard = record { taken = taken; less = less; gained = gained; heard = heard }

  -- a longer text
  pub says_less_of_more : (a b : K) (from to : Recording R) (text more : List ℕ) → SaysLess tells held rc a from b to [] text → SaysLess tells held rc a from b to [] (text ++ more)
  says_less_of_more a b from to text more g =
      let less = g.less in
      let same : take g.taken text ≡ take g.taken (text ++ more) = sym (take-append-le g.taken text more (omega (arith, less))) in record {
        taken = g.taken;
        less = omega (arith, less, length-append text more);
        gained = subst (λ (x : List ℕ). Gains tells held a b x) same g.gained;
        heard = subst (λ (x : List ℕ). Hears rc from to (Says x ∷ [])) same g.heard;
      }

  -- after a piece that was taken whole
  pub says_less_after : (a b c : K) (from at to : Recording R) (front text : List ℕ) → Gains tells held a b front → Hears rc from at (Says front ∷ []) → SaysLess tells held rc b at c to [] text → SaysLess tells held rc a from c to [] (front ++ text)
  says_less_after a b c from at to front text first heard g =
      let less = g.less in
      let same : front ++ take g.taken text ≡ take (length front + g.taken) (front ++ text) = sym (take-append-add front text g.taken) in record {
        taken = length front + g.taken;
        less = omega (arith, less, length-append front text);
        gained = subst (λ (x : List ℕ). Gains tells held a c x) same (gains_then tells held a b c front (take g.taken text) first g.gained);
        heard = subst (λ (x : List ℕ). Hears rc from to (Says x ∷ [])) same (hears_both rc from at to front (take g.taken text) heard g.heard);
      }

  -- after other events
  pub says_less_past : (a b : K) (from at to : Recording R) (before : List Event) (text : List ℕ) → Hears rc from at before → SaysLess tells held rc a at b to [] text → SaysLess tells held rc a from b to before text
  says_less_past a b from at to before text heard g = record { taken = g.taken; less = g.less; gained = g.gained; heard = hears_then rc from at to before (Says (take g.taken text) ∷ []) heard g.heard }

  pub says_less_is : (a b : K) (from to : Recording R) (before : List Event) (text other : List ℕ) → text ≡ other → SaysLess tells held rc a from b to before text → SaysLess tells held rc a from b to before other
  says_less_is a b from to before text other is g = subst (λ (x : List ℕ). SaysLess tells held rc a from b to before x) is g

  pub says_less_behind : (a b : K) (from to : Recording R) (before other : List Event) (text : List ℕ) → before ≡ other → SaysLess tells held rc a from b to before text → SaysLess tells held rc a from b to other text
  says_less_behind a b from to before other text is g = subst (λ (es : List Event). SaysLess tells held rc a from b to es text) is g
