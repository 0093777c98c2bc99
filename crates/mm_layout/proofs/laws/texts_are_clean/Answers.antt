use Rattle.mm_layout.proofs.Clean.{text_good, text_dollarless, text_front, text_back}
use Rattle.mm_layout.proofs.laws.texts_are_clean.Goals as goal

pub returns : goal.returns
returns c = record { good = text_good; dollarless = text_dollarless; front = text_front; back = text_back }
