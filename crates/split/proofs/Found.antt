-- What an answer of the reader says of the sheet and of the work space.
use mathlib.Core.Path.{◌≡◌, sym, ap}
use Rattle.spec.specs.Split.{Split}
use Rattle.spec.specs.declared.Header.{Header}

pub denominator_decodes : (S : Split) (h : Header) → S.header ≡ h → h.denominator ≡ S.header.denominator
denominator_decodes S h e = sym (ap (λ H. H.denominator) e)

pub locations_decodes : (S : Split) (h : Header) → S.header ≡ h → h.locations ≡ S.header.locations
locations_decodes S h e = sym (ap (λ H. H.locations) e)

pub types_decodes : (S : Split) (h : Header) → S.header ≡ h → h.types ≡ S.header.types
types_decodes S h e = sym (ap (λ H. H.types) e)

pub start_decodes : (S : Split) (h : Header) → S.header ≡ h → h.start.0 ≡ S.header.start.0
start_decodes S h e = sym (ap (λ H. H.start.0) e)
