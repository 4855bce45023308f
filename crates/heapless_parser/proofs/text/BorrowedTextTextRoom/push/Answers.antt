use Rattle.std.proofs.Common.{rules, ◌≡◌, ◌≤◌, ◌<◌, ◌-◌, true, length, arith}
use Rattle.esc_frame.specs.Limits.{most}
use Rattle.heapless_parser.proofs.EventNotes.EventsAreNoted.{no_room}
use Rattle.heapless_parser.proofs.text.BorrowedTextTextRoom.push.Goals as goal

pub returns-then-text-self-clause-refused : goal.returns-then-text-self-clause-refused
returns-then-text-self-clause-refused g c =
    let so : c.fits.result ≡ true = search rules in
    let low : c.args.self.now.count ≤ g.N.Named.room = omega arith in
    let small : c.args.self.now.count ≤ most = omega arith in
    let much : g.N.Named.room - c.args.self.now.count < length c.args.text.now = omega arith in
    no_room c.args.limit g.N.Named.room c.args.self.now.count (length c.args.text.now) c.fits.result
    c.fits.ensures so low small much
