use Rattle.std.proofs.Common.{ℕ, ◌≡◌, ◌∷◌, ◌++◌, List, refl, sym, ap, ◌∙◌}
use Rattle.std.specs.Fmt.{HasWritten}
use Rattle.std.specs.List.{flat_map}
use Rattle.std.proofs.lemmas.Grind.{put_two}
use Rattle.esc_values.specs.Cuts.{Pairs, pair_text}
use Rattle.esc_links.specs.Hyperlinks.{params_text}
use Rattle.esc_links.proofs.hyperlink.write_params.Goals as goal

abbrev text : Pairs → List ℕ
text es = flat_map (λ e. 0x3a ∷ pair_text e) es

pub returns : goal.returns
returns g c plain ok =
    let first = pair_text (c.in-Some.key.now, c.in-Some.value.now) in
    let w : HasWritten g.W.Write.write_str_gives c.args.f.now first c.write.new.self =
    c.in_ok-write.ensures.writes plain refl in
    let more = c.write_rest.ensures w.plain ok in
    let all : params_text c.args.params.now ≡ first ++ text c.next.new.self =
    ap params_text (sym c.iter-pairs.ensures ∙ c.in-Some.ensures.steps) in
    put_two g.W.Write.write_str_gives c.args.f.now c.write.new.self c.write_rest.new.f first
    (text c.next.new.self)
    (params_text c.args.params.now) w more (sym all)
