-- Conditions with accepted derivations are valid.
use Rattle.std.proofs.Common.{List, [], ◌∷◌}
use Rattle.tor_axioms.specs.Accepts.{Proof, Claim}
use Rattle.tor_axioms.proofs.Accepted.{accepts-anywhere, sound-anywhere, anywhere-valid}
use Rattle.vc_gen.specs.Soundness.{AllValid, AllValidAnywhere, AllSound, AllAccepted}

all-anywhere-valid : (cs : List Claim) → AllValidAnywhere cs → AllValid cs
all-anywhere-valid [] h = tt
all-anywhere-valid (c ∷ cs) h = (anywhere-valid c h.0, all-anywhere-valid cs h.1)

pub all-sound-anywhere : (cs : List Claim) → AllSound cs → AllValidAnywhere cs
all-sound-anywhere [] h = tt
all-sound-anywhere (c ∷ cs) h = (sound-anywhere c h.0, all-sound-anywhere cs h.1)

pub all-accepted-anywhere : (cs : List Claim) (ds : List Proof) → AllAccepted cs ds → AllValidAnywhere cs
all-accepted-anywhere [] [] h = tt
all-accepted-anywhere [] (d ∷ ds) h = absurd h
all-accepted-anywhere (c ∷ cs) [] h = absurd h
all-accepted-anywhere (c ∷ cs) (d ∷ ds) h = (accepts-anywhere c d h.0, all-accepted-anywhere cs ds h.1)

pub all-sound-valid : (cs : List Claim) → AllSound cs → AllValid cs
all-sound-valid cs h = all-anywhere-valid cs (all-sound-anywhere cs h)

pub all-accepted-valid : (cs : List Claim) (ds : List Proof) → AllAccepted cs ds → AllValid cs
all-accepted-valid cs ds h = all-anywhere-valid cs (all-accepted-anywhere cs ds h)
