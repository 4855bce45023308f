use Rattle.std.proofs.Common.{refl}
use Rattle.dump_page.specs.Pages.PagePart.{LineEnd}
use Rattle.dump_page.proofs.phrase.Phrase.end_line.Goals as goal

pub push_page_part-requires : goal.push_page_part-requires
push_page_part-requires c = (LineEnd, refl, refl)
