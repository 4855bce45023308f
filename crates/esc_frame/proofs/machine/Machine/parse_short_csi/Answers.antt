use Rattle.std.proofs.Common.{ℕ, ◌≡◌, ◌+◌, ◌-◌, ◌<◌, refl, arith, true, get_or, take, drop, length, subst, sym, ◌∙◌, None, List, [], rules}
use Rattle.std.proofs.lemmas.List.{map-id}
use Rattle.esc_values.specs.declared.csi_param.CsiParam.{CsiParam}
use Rattle.esc_frame.specs.declared.unfinished.fields.Body.{Body}
use Rattle.esc_frame.specs.Changed.{Changed}
use Rattle.esc_frame.specs.Machine.Shorts.{PutsBody}
use Rattle.esc_frame.specs.Machine.Taking.{StartsWithShortCsi}
use Rattle.esc_frame.specs.Sequences.{is_from}
use Rattle.esc_frame.proofs.Emits.MayAfterSome.{Logs, logged}
use Rattle.esc_frame.proofs.Emits.MayInGround.{may_one}
use Rattle.esc_frame.proofs.ByteRuns.ShortRuns.{none_still, short_read, short_after, short_given, short_stops, short_still}
use Rattle.esc_frame.proofs.Steps.FailureIsHandedOn.{error_of}
use Rattle.esc_frame.proofs.machine.Machine.parse_short_csi.Goals as goal

starts : (params : Changed (List CsiParam)) (rest : List ℕ) (body : Body) → 2 < length rest
    → get_or rest 0 0 ≡ 0x1b → get_or rest 1 0 ≡ 0x5b
    → PutsBody (λ p. p) params (take (length rest - 2) (drop 2 rest)) body
    → is_from 0x40 0x7e body.after ≡ true
    → StartsWithShortCsi (take body.count params.exit.now) rest body.length
starts params rest body some escape second puts final =
    subst (λ items. StartsWithShortCsi items rest body.length)
    (map-id (take body.count params.exit.now)) (short_read (λ p. p) params rest body (record {
      some = some;
      escape = escape;
      second = second;
    }) puts final).0

pub returns-then-rest-le2 : goal.returns-then-rest-le2
returns-then-rest-le2 g c = record {
  taken = record {
    ground = (c.requires.ground, refl);
    stays = (omega arith, refl, λ limit. refl, λ r. r);
  };
  quiet = λ limit. none_still limit c.args.rest.now;
}

pub returns-then-rest-ne91 : goal.returns-then-rest-ne91
returns-then-rest-ne91 g c = record {
  taken = record {
    ground = (c.requires.ground, refl);
    stays = (omega arith, refl, λ limit. refl, λ r. r);
  };
  quiet = λ limit. none_still limit c.args.rest.now;
}

pub returns-then-not-lies_from : goal.returns-then-not-lies_from
returns-then-not-lies_from g c = record {
  taken = record {
    ground = (c.requires.ground, refl);
    stays = (omega arith, refl, λ limit. refl, λ r. r);
  };
  quiet = λ limit. none_still limit c.args.rest.now;
}

pub returns : goal.returns
returns g c =
    let s = starts _ c.args.rest.now c.read_body-body.result (omega arith) c.requires.escape
    c.if-rest-ne91.false c.read_body-body.ensures
    (sym c.lies_from.ensures ∙ c.if-not-lies_from.false) in record {
      taken = record {
        ground = search rules;
        stays = (
          omega (arith, s.few),
          short_after None c.args.rest.now c.read_body-body.result.length _ s,
          λ limit. short_given limit c.args.rest.now c.read_body-body.result.length _ s
              g.V.EventSink.takes g.V.EventSink.refuses c.args.actor.now c.csi_dispatch.new.self
              c.in_ok-csi_dispatch.ensures.receives,
          c.in_ok-csi_dispatch.ensures.ready,
        );
      };
      quiet = λ limit. short_still limit c.args.rest.now c.read_body-body.result.length _ s;
    }

pub returns-in_err-csi_dispatch : goal.returns-in_err-csi_dispatch
returns-in_err-csi_dispatch g c =
    let s = starts _ c.args.rest.now c.read_body-body.result (omega arith) c.requires.escape
    c.if-rest-ne91.false c.read_body-body.ensures
    (sym c.lies_from.ensures ∙ c.if-not-lies_from.false) in record {
      taken = record {
        ground = search rules;
        stays = rw (error_of c.from_residual.result c.from_residual.ensures.0).1
            (λ limit. short_stops limit c.args.rest.now c.read_body-body.result.length _ s
            g.V.EventSink.takes g.V.EventSink.refuses c.args.actor.now c.csi_dispatch.new.self
            c.in_err-csi_dispatch.ensures.receives);
      };
      quiet = search rules;
    }

pub csi_dispatch-requires : goal.csi_dispatch-requires
csi_dispatch-requires g c =
    let s = starts _ c.args.rest.now c.read_body-body.result (omega arith) c.requires.escape
    c.if-rest-ne91.false c.read_body-body.ensures
    (sym c.lies_from.ensures ∙ c.if-not-lies_from.false) in
    may_one g.V.EventSink.is_ready g.V.EventSink.may g.V.EventSink.takes c.args.rest.now
    (c.read_body-body.result.length + 3) _ c.args.actor.now (
      short_after None c.args.rest.now c.read_body-body.result.length _ s,
      λ limit. sym (logged [] _ _ (short_given limit c.args.rest.now
          c.read_body-body.result.length _ s Logs Logs [] _ refl)),
    ) c.requires.ready

pub bounds-rest-body : goal.bounds-rest-body
bounds-rest-body g c =
    (starts _ c.args.rest.now c.read_body-body.result (omega arith) c.requires.escape
    c.if-rest-ne91.false c.read_body-body.ensures
    (sym c.lies_from.ensures ∙ c.if-not-lies_from.false)).few
