use Rattle.std.proofs.Common.{◌≡◌, ◌+◌, ℕ, List, length, map, refl, ap, sym, ◌∙◌, subst}
use Rattle.mm_proof.specs.Compacting.{Compacts}
use Rattle.mm_proof.specs.Encodes.{OfTree, Spells}
use Rattle.mm_proof.specs.Encoding.{own_labels}
use Rattle.mm_proof.specs.Forests.{arity_of}
use Rattle.mm_proof.specs.Numbered.{number_in, IsTable, Lists, Numbers}
use Rattle.mm_proof.specs.declared.encoder.Spelled.{Spelled}
use Rattle.mm_proof.specs.declared.written.Step.{Step}
use Rattle.mm_proof.proofs.Wholes.{listed_tree, of_same}
use Rattle.mm_proof.proofs.encoder.spell_out.Goals as goal

pub returns-clause-spells : goal.returns-clause-spells
returns-clause-spells c =
    let bytes = c.args.db.now in
    let written = c.in_ok-written.written.items in
    let mandatory = c.as_slice-mandatory.result.now in
    let before = number_in c.in_ok-known.known in
    let after = number_in c.list_labels.new.known in
    let list = c.in_ok-list.list in
    let steps = c.in_ok-steps.steps in
    let own = length mandatory in
    let P : List ℕ → Type 0 = λ x. Compacts (arity_of bytes) x written in
    let Q : List Step → Type 0 = λ x. (ls : List ℕ) → length ls ≡ own → IsTable before ls → Lists ls after list.items x in
    let R : List Step → Type 0 = λ x. Numbers after (own + c.len-2.result) x steps.items in
    let own_is : own_labels bytes c.args.at.0 ≡ map (λ n. n + 1) mandatory = ap (map (λ n. n + 1)) (sym (c.as_slice-mandatory.ensures ∙ c.frame-frame.ensures.mandatory)) in
    let count : own + c.len-2.result ≡ own + length list.items = ap (λ n. own + n) (c.len-2.ensures ∙ list.ok.0) in
    let spelled : Spelled = record { list = list; steps = steps } in
    of_same c.few.result spelled (λ s. OfTree bytes c.args.steps.now (λ t. Spells bytes c.args.at.0 t s)) c.few.ensures.same (λ t one.
    let l = listed_tree bytes c.args.at.0 t c.args.steps.now c.in_ok-labels.labels.items mandatory list.items written steps.items before after own (own + c.len-2.result) one
    (c.in_ok-labels.ensures.flat t one) (subst P c.as_slice.ensures.value c.in_ok-written.ensures) own_is refl c.in_ok-known.ensures
    (subst Q c.as_slice-2.ensures.value c.in_ok-list.ensures.table) count (subst R c.as_slice-3.ensures.value c.in_ok-steps.ensures) in
    record { list = l.list_is; letters = l.letters_are })
