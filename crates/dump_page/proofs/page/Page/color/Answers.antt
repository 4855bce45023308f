use Rattle.std.proofs.Common.{refl}
use Rattle.dump_page.specs.Pages.PagePart.{PlaceColor, BytesColor, NoColor}
use Rattle.dump_page.proofs.page.Page.color.Goals as goal

pub push_page_part-requires : goal.push_page_part-requires
push_page_part-requires c = (PlaceColor, refl, refl)

pub push_page_part-requires-in-Bytes : goal.push_page_part-requires-in-Bytes
push_page_part-requires-in-Bytes c = (BytesColor, refl, refl)

pub push_page_part-requires-in-Plain : goal.push_page_part-requires-in-Plain
push_page_part-requires-in-Plain c = (NoColor, refl, refl)
