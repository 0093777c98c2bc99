-- Ids that are gathered one list after another.
use Rattle.std.proofs.Common.{◌≡◌, ◌<◌, ◌+◌, ℕ, List, [], ◌++◌, length, drop, get_or, flat_map, fold, sym, ap, ◌∙◌}
use Rattle.std.proofs.lemmas.List.{drop_more}
use Rattle.std.proofs.lemmas.List.Elements.{filter_map-append}
use Rattle.std.proofs.lemmas.List.Sums.{fold-append}
use Rattle.mm_tables.specs.Marked.{with_number}
use Rattle.mm_tables.specs.Standings.{Standings}
use Rattle.mm_tables.specs.Tables.{standing_at}
use Rattle.mm_stated.specs.Mandatory.{statement_at}
use Rattle.mm_stated.specs.Needed.{float_of, floats_of, candidates}
use Rattle.mm_stated.specs.Stated.{Stated}

pub more_floats : (table : Standings) (gathered xs ys : List ℕ)
    → fold with_number (fold with_number gathered (floats_of table xs)) (floats_of table ys) ≡ fold with_number gathered (floats_of table (xs ++ ys))
more_floats table gathered xs ys =
    sym (fold-append with_number gathered (floats_of table xs) (floats_of table ys))
    ∙ ap (fold with_number gathered) (sym (filter_map-append (λ n. float_of (standing_at table n)) xs ys))

pub all_gathered : (table : Standings) (statements : List Stated) (essentials symbols : List ℕ)
    → fold with_number (fold with_number (fold with_number [] essentials) (floats_of table symbols)) (floats_of table (flat_map (λ id. (statement_at statements id).symbols) essentials))
    ≡ fold with_number [] (candidates table statements essentials symbols)
all_gathered table statements essentials symbols =
    more_floats table (fold with_number [] essentials) symbols (flat_map (λ id. (statement_at statements id).symbols) essentials)
    ∙ sym (fold-append with_number [] essentials (floats_of table (symbols ++ flat_map (λ id. (statement_at statements id).symbols) essentials)))

pub more_at : (table : Standings) (statements : List Stated) (gathered ids : List ℕ) (i d : ℕ) → i < length ids
    → fold with_number (fold with_number gathered (floats_of table (statement_at statements (get_or ids i d)).symbols)) (floats_of table (flat_map (λ id. (statement_at statements id).symbols) (drop (i + 1) ids)))
    ≡ fold with_number gathered (floats_of table (flat_map (λ id. (statement_at statements id).symbols) (drop i ids)))
more_at table statements gathered ids i d h =
    more_floats table gathered (statement_at statements (get_or ids i d)).symbols (flat_map (λ id. (statement_at statements id).symbols) (drop (i + 1) ids))
    ∙ ap (λ l. fold with_number gathered (floats_of table (flat_map (λ id. (statement_at statements id).symbols) l))) (sym (drop_more ids i d h))
