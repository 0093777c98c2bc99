use Rattle.std.proofs.Common.{ap, arith}
use Rattle.mm_plain.specs.Grafts.{raised}
use Rattle.mm_tree.specs.Trees.{State, IsWhole, versions_of}
use Rattle.mm_tree.proofs.tree.Tree.fresh.Goals as goal

pub returns : goal.returns
returns c = (
  ap (λ (s : State). s.proof.next) c.self.view_is,
  ap (λ (s : State). record s { proof = raised c.args.n s.proof }) c.self.view_is,
  (let f = c.self.invariant.whole.sound.last in omega (arith, c.if-n-self.false, f, ap (λ (s : State). s.proof.next) c.self.view_is)),
)

pub invariant_of-self : goal.invariant_of-self
invariant_of-self c =
    let w : IsWhole (versions_of c.self.inside) c.self.inside.next = c.self.invariant.whole in
    record {
      whole = record {
        begun_root = w.begun_root;
        begun_length = w.begun_length;
        sound = record { born = w.sound.born; few = w.sound.few; low = w.sound.low; first = (let f = w.sound.first in omega (arith, f)); last = (let f = w.sound.last in omega (arith, f, c.if-n-self.false)) };
        turn = w.turn;
      };
      roots = c.self.invariant.roots;
      trail = c.self.invariant.trail;
      keyed = c.self.invariant.keyed;
    }
