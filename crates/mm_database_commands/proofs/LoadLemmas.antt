-- What is answered of a file that was fetched.
use Rattle.std.proofs.Common.{◌≡◌, ◌≤◌, ℕ, true, is_ok, List, length, Option, None, Some, Result, Ok, Err, refl, sym, ◌∙◌, ap, subst, arith}
use Rattle.std.proofs.lemmas.List.{take_all}
use Rattle.mm_base.specs.Files.{Finds}
use Rattle.mm_base.specs.declared.files.Fetched.{Fetched}
use Rattle.mm_scope.specs.Contents.{is_read}
use Rattle.mm_scope.specs.Contexts.{Fails}
use Rattle.mm_scope.specs.Databases.{database_of as contents_of}
use Rattle.mm_scope.specs.Events.{Event}
use Rattle.mm_scope.specs.declared.fault.ReadFault.{ReadFault}
use Rattle.mm_scope.specs.declared.fault.ReadFault.TheVariants as fault
use Rattle.mm_scope.proofs.ContentsLemmas.{is_read-length, first_bytes}
use Rattle.mm_shell.specs.Answers.{Answer, Gives, given, or_refusal}
use Rattle.mm_shell.specs.declared.answer.Done.{Done}
use Rattle.mm_shell.specs.declared.refusal.Refusal.{Refusal}
use Rattle.mm_shell.specs.declared.refusal.Refusal.TheVariants.{BadDatabase, NoFile}
use Rattle.mm_database_commands.specs.Commands.{loaded, loading, read_refusal}

-- the first bytes of a file say what all of them say
first_say : (bytes : List ℕ) (f : Fetched) → Finds (Some bytes) 134217729 (Some f) → contents_of f.bytes.items ≡ contents_of bytes
first_say bytes f h = ap contents_of h.0 ∙ first_bytes bytes

-- where they are read, they are all of them
whole_file : (bytes : List ℕ) (f : Fetched) → Finds (Some bytes) 134217729 (Some f) → is_read bytes ≡ true → f.bytes.items ≡ bytes
whole_file bytes f h read = let le : length bytes ≤ 134217728 = is_read-length bytes read in h.0 ∙ take_all 134217729 bytes (omega (arith, le))

pub none_loaded : (name : List ℕ) (found : Option (List ℕ)) → Finds found 134217729 None → Gives (loaded name found) (Err (NoFile name))
unfolding given
none_loaded name None h = refl
none_loaded name (Some bytes) h = absurd h

fine_loaded : (name bytes : List ℕ) (r : Result (List Event) ReadFault) (done : Done) → is_ok r ≡ true → done ≡ loading bytes
    → (let a : Answer = Ok done in a) ≡ given (or_refusal r BadDatabase) (λ events. Ok (loading bytes))
unfolding given
fine_loaded name bytes (Ok events) done o e = ap (λ (d : Done). let a : Answer = Ok d in a) e
fine_loaded name bytes (Err f) done o e = cc

pub read_loaded : (name : List ℕ) (found : Option (List ℕ)) (f : Fetched) (database : List ℕ) (done : Done) → Finds found 134217729 (Some f) → is_read f.bytes.items ≡ true
    → database ≡ f.bytes.items → done ≡ loading database → Gives (loaded name found) (Ok done)
unfolding given is_read
read_loaded name None f database done h read d e = absurd h
read_loaded name (Some bytes) f database done h read d e =
    let is : is_read bytes ≡ true = sym (ap is_ok (first_say bytes f h)) ∙ read in
    fine_loaded name bytes (contents_of bytes) done is (e ∙ ap loading (d ∙ whole_file bytes f h is))

bad_loaded : (name bytes : List ℕ) (r : Result (List Event) ReadFault) (f : ReadFault) → r ≡ Err f
    → (let a : Answer = Err (BadDatabase f) in a) ≡ given (or_refusal r BadDatabase) (λ events. Ok (loading bytes))
unfolding given
bad_loaded name bytes r f e = rw e refl

pub fault_loaded : (name : List ℕ) (found : Option (List ℕ)) (f : Fetched) (e : ReadFault) (r : Refusal) → Finds found 134217729 (Some f) → Fails e (contents_of f.bytes.items)
    → r ≡ read_refusal e → Gives (loaded name found) (Err r)
unfolding given
fault_loaded name None f e r h fails is = absurd h
fault_loaded name (Some bytes) f fault.Memory r h fails is = rw is tt
fault_loaded name (Some bytes) f e r h fails is = rw is (bad_loaded name bytes (contents_of bytes) e (sym (first_say bytes f h) ∙ fails))
