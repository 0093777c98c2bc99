use Rattle.mm_session.proofs.OriginLemmas.{databases_are_from_files}
use Rattle.mm_session.proofs.SavesLemmas.{only_saves_change, puts_the_database}
use Rattle.mm_session.proofs.law.only_saves_change_a_database.Goals as goal

pub returns-clause-change : goal.returns-clause-change
returns-clause-change c = only_saves_change

pub returns-clause-put : goal.returns-clause-put
returns-clause-put c = puts_the_database

pub returns-clause-origin : goal.returns-clause-origin
returns-clause-origin c = databases_are_from_files
