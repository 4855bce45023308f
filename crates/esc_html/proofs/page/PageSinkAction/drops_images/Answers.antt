use Rattle.esc_html.proofs.Pages.ValuesOfPage.{image_dropped}
use Rattle.esc_html.proofs.page.PageSinkAction.drops_images.Goals as goal

pub returns : goal.returns
returns g c = λ yes a is. image_dropped c.args.self.now a is
