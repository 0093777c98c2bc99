-- The file that `fetch` has read.
use Rattle.std.proofs.Common.{Some}
use Rattle.std.proofs.lemmas.Bool.{false≢true}
use Rattle.mmpa.proofs.files.RealFilesFiles.fetch.Goals as goal

-- src/files.rt:123:5
pub returns-in-Ok-read_file-clause-found : goal.returns-in-Ok-read_file-clause-found
returns-in-Ok-read_file-clause-found g c = record { file = Some c.in-Ok-read_file.bytes.items; same = λ told. absurd (false≢true told); finds = c.cut.ensures }
