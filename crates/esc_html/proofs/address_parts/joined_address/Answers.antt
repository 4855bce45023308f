use Rattle.esc_html.proofs.Parts.AddressesInParts.{joined_is}
use Rattle.esc_html.proofs.address_parts.joined_address.Goals as goal

pub returns-clause-ok : goal.returns-clause-ok
returns-clause-ok g c =
    rw (
      c.text_of.ensures,
      c.in_ok-push_joined.ensures.ok,
      c.clear.ensures.items,
      c.after_first.ensures,
      c.as_slice.ensures.value,
      c.remove-code.ensures.items,
      c.into_vec-parts.ensures,
    ) (joined_is c.args.parts c.requires)
