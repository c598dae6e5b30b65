use Rattle.std.proofs.Common.{◌≡◌, false, true, List, OnOk, ap, sym, ◌∙◌, subst, ◌++◌, ◌∷◌, [], arith}
use Rattle.std.proofs.lemmas.Grind.{common_steps}
use Rattle.cert_kit.specs.declared.row.PRow.{PRow}
use Rattle.fm_elim.specs.declared.live.Live.{Live}
use Rattle.fm_elim.specs.Tidy.{is_tighter}
use Rattle.fm_elim.specs.machine.Tidying.{Stands, rows_of}
use Rattle.fm_elim.proofs.ParallelLaws.{parallel_at, parallel_inside, same_item, stands_kept}
use Rattle.std.specs.List.{AllByRecursion}
use Rattle.fm_elim.specs.machine.Logging.{IsLive}
use Rattle.fm_elim.proofs.LoggingLaws.{logs_start, remove_live}
use Rattle.fm_elim.proofs.kept.Kept.put_at.Goals as goal

pub index-requires : goal.index-requires
index-requires c = let h = parallel_inside c.args.self.now.rows.items c.args.row c.args.place c.requires.parallel in omega (arith, h)

pub returns-then-not-is_tighter-clause-stands : goal.returns-then-not-is_tighter-clause-stands
returns-then-not-is_tighter-clause-stands c =
    let p = parallel_at c.args.self.now.rows.items c.args.row c.args.place c.requires.parallel in
    let s = same_item c.args.self.now.rows.items c.args.place c.index.result.now p.live p.here c.index.ensures in
    let t : is_tighter c.args.row c.index.result.now.row ≡ false = grind (arith, common_steps) in
    stands_kept c.args.self.now.is_over c.args.self.now.rows.items _ c.requires.over
    (p.kept (ap (λ (l : Live). is_tighter c.args.row l.row) s ∙ t))

pub remove-requires : goal.remove-requires
remove-requires c = let h = parallel_inside c.args.self.now.rows.items c.args.row c.args.place c.requires.parallel in omega (arith, h)

pub returns-clause-stands : goal.returns-clause-stands
returns-clause-stands c =
    let p = parallel_at c.args.self.now.rows.items c.args.row c.args.place c.requires.parallel in
    let s = same_item c.args.self.now.rows.items c.args.place c.index.result.now p.live p.here c.index.ensures in
    let t : is_tighter c.args.row c.index.result.now.row ≡ true = grind (arith, common_steps) in
    subst (λ (q : List PRow). OnOk c.append.result (Stands c.append.new.self.is_over c.append.new.self.rows.items q))
    (ap (λ (ls : List Live). rows_of ls ++ c.args.row ∷ []) c.remove.ensures.items ∙ sym (p.moved (ap (λ (l : Live). is_tighter c.args.row l.row) s ∙ t))) c.append.ensures.stands

pub returns-then-not-is_tighter-clause-logged : goal.returns-then-not-is_tighter-clause-logged
returns-then-not-is_tighter-clause-logged c = logs_start c.args.log.now c.args.self.now.rows.items c.requires.logged.logged

pub append-requires-clause-logged : goal.append-requires-clause-logged
append-requires-clause-logged c =
    let k = c.requires.logged in
    record {
      logged = record {
        sound = k.logged.sound;
        lives = subst (AllByRecursion (IsLive c.args.log.now)) (sym c.remove.ensures.items) (remove_live (IsLive c.args.log.now) c.args.self.now.rows.items c.args.place k.logged.lives);
      };
      fits = k.fits;
      cut = k.cut;
      unknown = k.unknown;
      origin = k.origin;
    }
