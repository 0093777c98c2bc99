use Rattle.std.proofs.Common.{◌≡◌, ◌≤◌, ◌-◌, ◌++◌, ap, ◌∙◌, arith, length, get_or, take, drop, ℕ, List}
use Rattle.std.specs.Vec.{vec_len}
use Rattle.mm_tables.specs.Numbering.{numbers_of, copies}
use Rattle.mm_tables.proofs.Changing.{closes, closes_own}
use Rattle.mm_tables.proofs.declarations.Declarations.close.Goals as goal

pub end_above-requires : goal.end_above-requires
end_above-requires c =
    let heights : List ℕ = c.self.inside.heights.items in
    let height : c.last_of-height.result ≡ get_or heights (length heights - 1) 0 = c.last_of-height.ensures ∙ ap (λ hs. get_or hs (length hs - 1) 0) c.as_slice.ensures.value in
    let own : c.last_of-height.result ≤ length c.self.inside.standing.items =
    closes_own c.self.inside.layers c.self.inside.changes c.self.inside.changes c.self.inside.standing.items heights c.self.invariant c.last_of-height.result height in
    omega (arith, own, ap length c.as_slice-2.ensures.value)

pub invariant_of-self-2 : goal.invariant_of-self-2
invariant_of-self-2 c =
    let heights : List ℕ = c.self.inside.heights.items in
    let standing : List ℕ = c.self.inside.standing.items in
    let len : vec_len c.self.inside.heights ≡ length heights = omega arith in
    let height : c.last_of-height.result ≡ get_or heights (length heights - 1) 0 = c.last_of-height.ensures ∙ ap (λ hs. get_or hs (length hs - 1) 0) c.as_slice.ensures.value in
    let rest : c.pop.new.self.items ≡ take (length heights - 1) heights = c.pop.ensures.rest ∙ ap (λ n. take (n - 1) heights) len in
    rw (c.close.ensures, c.truncate.ensures.items, rest) (
    closes c.self.inside.layers c.self.inside.changes c.end_above.new.changes standing heights c.self.invariant c.last_of-height.result height
    (λ v. c.in_ok-end_above.ensures.ok v
    ∙ ap (λ n. numbers_of c.self.inside.changes v ++ copies n (drop c.last_of-height.result c.as_slice-2.result.now) v) c.moments-moment.ensures
    ∙ ap (λ s. numbers_of c.self.inside.changes v ++ copies (length c.self.inside.layers.moments) (drop c.last_of-height.result s) v) c.as_slice-2.ensures.value))
