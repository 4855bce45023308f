use Rattle.std.proofs.Common.{rules, ◌≡◌, ◌≤◌, ◌<◌, ◌++◌, [], length, take, subst, sym, arith, refl}
use Rattle.std.proofs.KnownBytes.{Appends-nil, Consumes-kept, Consumes-nil, Consumes-trans}
use Rattle.std.specs.Io.KnownBytes.{Appends}
use Rattle.esc_normal.proofs.Results.{not_failed, now_failed, one_more, other, prefix_after, prefix_longer, prefix_whole, read_none, stays_sound, unfailed, written_more}
use Rattle.esc_normal.specs.declared.filter_error.FilterError.TheVariants as fault
use Rattle.esc_normal.proofs.filtering.filter_all.Goals as goal

pub loop-init : goal.loop-init
loop-init g c = record {
  reader = λ h. h;
  writer = λ h. h;
  read = λ m e fresh none. (
    [],
    Consumes-nil _,
    fresh,
    subst (λ t. Appends (g.W.Write.contents c.args.writer.now.inner)
        (g.W.Write.contents c.args.writer.now.inner) t) (sym none) (Appends-nil _),
    omega arith,
  );
}

pub returns-in-Ok-eq0 : goal.returns-in-Ok-eq0
returns-in-Ok-eq0 g c =
    let sound = stays_sound _ _ _ _ c.read.ensures.emitted c.in-Ok-eq0.is in record {
      read_all = search rules;
      fed = λ m e fresh none more.
          let r = c.loop.invariant.read m e fresh none in
          let zero : c.in-Ok-eq0.field-0 ≡ 0 = search rules in (
            r.0,
            r.2,
            read_none _ _ _ r.0 _ c.read.new.buf zero r.1 c.in-Ok-eq0.ensures.bytes.0,
            r.3,
          );
      decided = λ m e fresh none more k. absurd (other _ fault.Read k refl);
      endless = λ m e fresh none more k. absurd (other _ fault.Endless k refl);
      until_refused = λ m e fresh none more k. absurd (other _ fault.Memory k refl);
      beginning = λ m e fresh none more. tt;
      read_fault = λ h. not_failed _ fault.Read _ (λ k. other _ _ k refl)
          (sound (c.loop.invariant.reader h));
      write_fault = λ h. not_failed _ fault.Write _ (λ k. other _ _ k refl)
          (c.loop.invariant.writer h);
      refused = λ m e fresh none more k. absurd (other _ fault.Memory k refl);
    }

pub returns-in-Err : goal.returns-in-Err
returns-in-Err g c = record {
  read_all = tt;
  fed = λ m e fresh none more. tt;
  decided = λ m e fresh none more _.
      let r = c.loop.invariant.read m e fresh none in
      (r.0, m r.0, Consumes-kept _ _ _ r.0 r.1 c.in-Err.ensures.bytes, r.3, refl);
  endless = λ m e fresh none more k. absurd (other _ fault.Endless k refl);
  until_refused = λ m e fresh none more k. absurd (other _ fault.Memory k refl);
  beginning = λ m e fresh none more.
      let r = c.loop.invariant.read m e fresh none in (
        r.0,
        Consumes-kept _ _ _ r.0 r.1 c.in-Err.ensures.bytes,
        prefix_longer _ _ _ _ (more r.0) (prefix_whole _ _ _ r.3),
      );
  read_fault = λ h. (
    λ k. now_failed _ _ _ _ c.read.ensures.emitted c.in-Err.is,
    λ t. refl,
  );
  write_fault = λ h. not_failed _ fault.Write _ (λ k. other _ _ k refl) (c.loop.invariant.writer h);
  refused = λ m e fresh none more k. absurd (other _ fault.Memory k refl);
}

pub returns : goal.returns
returns g c = record {
  read_all = tt;
  fed = λ m e fresh none more. tt;
  decided = λ m e fresh none more k. absurd (other _ fault.Read k refl);
  endless = λ m e fresh none more _.
      let r = c.loop.invariant.read m e fresh none in
      let least : 18446744073709551615 ≤ length r.0 = omega (arith, r.4) in
      (r.0, m r.0, least, r.1, r.3, refl);
  until_refused = λ m e fresh none more k. absurd (other _ fault.Memory k refl);
  beginning = λ m e fresh none more.
      let r = c.loop.invariant.read m e fresh none in
      (r.0, r.1, prefix_longer _ _ _ _ (more r.0) (prefix_whole _ _ _ r.3));
  read_fault = λ h. not_failed _ fault.Read _ (λ k. other _ _ k refl) (c.loop.invariant.reader h);
  write_fault = λ h. not_failed _ fault.Write _ (λ k. other _ _ k refl) (c.loop.invariant.writer h);
  refused = λ m e fresh none more k. absurd (other _ fault.Memory k refl);
}

pub loop-preserved : goal.loop-preserved
loop-preserved g c =
    let input_chunk = take c.in-Ok.n c.read.new.buf in
    let pass = c.in-Ok-pass_on.ensures in
    let some : 0 < c.in-Ok.n = omega arith in
    record {
      reader = λ h. stays_sound _ _ _ _ c.read.ensures.emitted c.in-Ok.is
          (c.loop.invariant.reader h);
      writer = λ h. unfailed _ _ _ (pass.write_fault (c.loop.invariant.writer h));
      read = λ m e fresh none.
          let r = c.loop.invariant.read m e fresh none in
          let f = pass.given m e r.0 r.2 in (
            r.0 ++ input_chunk,
            Consumes-trans _ _ _ r.0 input_chunk r.1 c.in-Ok.ensures.bytes.0,
            f.0,
            written_more _ _ _ _ f.1.0 _ r.3 f.1.2 f.1.1,
            one_more c.loop.counter c.in-Ok.n r.0 c.read.new.buf r.4 some c.in-Ok.ensures.bound.1,
          );
    }

pub returns-in-Err-pass_on : goal.returns-in-Err-pass_on
returns-in-Err-pass_on g c =
    let pass = c.in-Err-pass_on.ensures in
    let input_chunk = take c.in-Ok.n c.read.new.buf in record {
      read_all = tt;
      fed = λ m e fresh none more. tt;
      decided = λ m e fresh none more k. absurd (pass.no_read k);
      endless = λ m e fresh none more k. absurd (pass.no_end k);
      until_refused = λ m e fresh none more memory.
          let r = c.loop.invariant.read m e fresh none in
          let within : length input_chunk ≤ length c.args.chunk.now =
          omega (arith, c.in-Ok.ensures.bound.0, c.in-Ok.ensures.bound.1) in (
            r.0,
            input_chunk,
            m r.0,
            within,
            Consumes-trans _ _ _ r.0 input_chunk r.1 c.in-Ok.ensures.bytes.0,
            subst (λ w. Appends (g.W.Write.contents c.args.writer.now.inner)
                (g.W.Write.contents w.inner) (m r.0)) (sym (pass.unwritten memory)) r.3,
            refl,
          );
      beginning = λ m e fresh none more.
          let r = c.loop.invariant.read m e fresh none in
          let f = pass.beginning m e r.0 r.2 in (
            r.0 ++ input_chunk,
            Consumes-trans _ _ _ r.0 input_chunk r.1 c.in-Ok.ensures.bytes.0,
            prefix_longer _ _ _ _ (more (r.0 ++ input_chunk))
                (prefix_after _ _ _ _ f.0 _ r.3 f.2 f.1),
          );
      read_fault = λ h. not_failed _ fault.Read _ pass.no_read
          (stays_sound _ _ _ _ c.read.ensures.emitted c.in-Ok.is (c.loop.invariant.reader h));
      write_fault = λ h. pass.write_fault (c.loop.invariant.writer h);
      refused = λ m e fresh none more memory.
          let r = c.loop.invariant.read m e fresh none in pass.refused m e r.0 r.2 memory;
    }
