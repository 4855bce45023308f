use Rattle.std.proofs.Common.{ℕ, ◌≡◌, ◌∷◌, ◌++◌, List, refl, sym, ap, ◌∙◌, subst, append_assoc}
use Rattle.std.specs.Fmt.{HasWritten}
use Rattle.std.specs.List.{flat_map}
use Rattle.std.proofs.lemmas.Grind.{put_two}
use Rattle.std.proofs.lemmas.List.{append-nil}
use Rattle.esc_values.specs.Cuts.{Pairs, pair_text}
use Rattle.esc_links.proofs.hyperlink.write_rest.Goals as goal

abbrev text : Pairs → List ℕ
text es = flat_map (λ e. 0x3a ∷ pair_text e) es

pub loop-key-preserved : goal.loop-key-preserved
loop-key-preserved g c plain =
    let h = c.loop-key.invariant plain in
    let more = 0x3a ∷ pair_text (c.in-Some.key.now, c.in-Some.value.now) in
    let w : HasWritten g.W.Write.write_str_gives c.loop-key.f more c.write.new.self =
    c.in_ok-write.ensures.writes h.1.plain refl in (
      h.0 ++ more,
      put_two g.W.Write.write_str_gives c.args.f.now c.loop-key.f c.write.new.self h.0 more
          (h.0 ++ more) h.1 w refl,
      h.2
          ∙ ap (λ es. h.0 ++ text es) c.in-Some.ensures.steps
          ∙ sym (append_assoc h.0 more (text c.next.new.self)),
    )

pub returns : goal.returns
returns g c plain ok =
    let h = c.loop-key.invariant plain in
    let all : text c.args.pairs ≡ h.0 =
    h.2 ∙ ap (λ es. h.0 ++ text es) c.in_default.ensures.steps.0 ∙ append-nil h.0 in
    let P : List ℕ → Type 0 =
    λ t. HasWritten g.W.Write.write_str_gives c.args.f.now t c.loop-key.f in
    subst P (sym all) h.1
