-- Acceptance and the round trips of whole records hold, and 16 of linear radii means an infinite one. Each is proved in a file of its own; here they are gathered.
-- Assumes nothing.
use Rattle.packed.proofs.Accepted as accepted
use Rattle.packed_laws.specs.RoundTrips.{RoundTrips}
use Rattle.packed_laws.specs.Infinite.{Infinite}
use Rattle.packed_laws.proofs.RoundTrip as trip
use Rattle.packed_laws.proofs.Rewritten as again
use Rattle.packed_laws.proofs.LinearRecord as linear
use Rattle.packed_laws.proofs.Infinite as infinite

pub round-trips : RoundTrips
round-trips = record {
  accepted_reads = λ bytes a. accepted.accepted_reads bytes a;
  read_accepts = λ bytes header read. accepted.read_accepts bytes read;
  written = λ code radii indices signs room bytes fit norm told.
      record {
        header_back = trip.written-header code radii indices signs room told (record { at = fit }) norm;
        fields_back = trip.written-fields code radii indices signs room told (record { at = fit }) norm;
        indices_back = trip.written-indices code radii indices signs room told;
        signs_back = trip.written-signs code radii indices signs room told;
        floats_back = λ plain. trip.written-floats code radii indices signs room plain told (record { at = fit });
        radii_back = trip.written-radii code radii indices signs room told (record { at = fit });
      };
  rewritten = λ bytes header below read plain. again.rewritten bytes (record { at = below }) read plain;
  rewritten_linear = λ bytes header room next below read linear told. again.rewritten_linear bytes (record { at = below }) read linear room told;
}

pub infinite-only : Infinite
infinite-only = record {
  read_infinite = λ bytes p below ranged told. linear.linear-refused bytes (record { at = below }) ranged p told;
  write_linear = λ code radii indices signs room p good told. infinite.written-linear radii good code indices signs room p told;
  write_infinite = λ code radii indices signs room p good told. infinite.written-infinite radii good code indices signs room p told;
  write_floats = λ code radii indices signs room p good plain told. infinite.written-not-plain radii good code indices signs room p told plain;
}
