use Rattle.std.proofs.Common.{◌≡◌, drop}
use Rattle.view_map.specs.Templates.{fits_front}
use Rattle.view_map.proofs.templates.fits_front.Given as goal

abbrev pub invariant-loop-part : goal.invariant-loop-part
invariant-loop-part l = fits_front (drop l.part-index l.parts) l.others ≡ fits_front l.parts l.fn.others
