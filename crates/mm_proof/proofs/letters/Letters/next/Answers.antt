use Rattle.std.proofs.Common.{◌≡◌, ◌≤◌, ℕ, List, length, sym, ◌∙◌, subst, arith}
use Rattle.mm_proof.specs.LettersLeft.{letters_left}
use Rattle.mm_proof.proofs.Lettered.{letters_first, letters_next}
use Rattle.mm_proof.proofs.letters.Letters.next.Goals.{then-self+in_ok-token, else-self}
use Rattle.mm_proof.proofs.letters.Letters.next.Goals as goal

pub returns-clause-some : goal.returns-clause-some
returns-clause-some c = elim c.if-self.branch [
  | then-self+in_ok-token w ↦
      let i = c.self.inside in
      let t = w.in_ok-token.token in
      let P : List ℕ → Type 0 = λ x. t.end ≤ length x in
      let same : letters_left i.from i.proof.now i.at i.end i.scanner ≡ letters_left i.from i.proof.now t.start t.end w.next_token.new.scanner =
      letters_next i.from i.proof.now i.at i.end i.scanner w.next_token.new.scanner t w.if-self.true w.in_ok-token.ensures.some in
      rw w.self-inside-is (sym c.self.view_is ∙ same
      ∙ letters_first i.from i.proof.now t.start t.end w.next_token.new.scanner w.in_ok-token.ensures.start (subst P c.self.invariant.whole w.in_ok-token.ensures.end))
  | else-self w ↦
      let i = c.self.inside in
      rw w.self-inside-is (sym c.self.view_is
      ∙ letters_first i.from i.proof.now i.at i.end i.scanner (omega (arith, c.self.invariant.ordered, w.if-self.false)) c.self.invariant.within)
]
